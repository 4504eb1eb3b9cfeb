-- The laws are lemmas.
use Rattle.vx_interval.proofs.Insides.{members_stay, equal_values}
use Rattle.vx_interval.proofs.laws.members_stay_in_wider.Goals as goal

pub returns : goal.returns
returns c = record { wider = members_stay; equal_value = equal_values }
