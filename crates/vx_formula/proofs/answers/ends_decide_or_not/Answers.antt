use Rattle.vx_formula.proofs.EndLemmas.{ends_are_in_order, all_above_is_below_all, greatest_at_most_is_level, ends_decide_or_not}
use Rattle.vx_formula.proofs.answers.ends_decide_or_not.Goals as goal

pub returns : goal.returns
returns c = record { in_order = ends_are_in_order; below_all = all_above_is_below_all; level = greatest_at_most_is_level; either = ends_decide_or_not }
