-- The laws are lemmas.
use Rattle.vx_num.proofs.Fractions.{+ᶠ_mono, -ᶠ_mono}
use Rattle.vx_num.proofs.laws.sums_are_monotone.Goals as goal

pub returns : goal.returns
returns c = record { sum = +ᶠ_mono; difference = -ᶠ_mono }
