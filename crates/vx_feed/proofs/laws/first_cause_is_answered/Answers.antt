use Rattle.vx_feed.proofs.CauseLemmas.{fault_is_of_first_cause, in_order_has_no_cause}
use Rattle.vx_feed.proofs.laws.first_cause_is_answered.Goals as goal

pub returns : goal.returns
returns c = record { fault = fault_is_of_first_cause; none = in_order_has_no_cause }
