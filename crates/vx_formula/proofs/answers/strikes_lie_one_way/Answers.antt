use Rattle.vx_formula.proofs.StrikeCases.{strikes_lie_one_way, lowest_between_is_one, greatest_at_most_is_one}
use Rattle.vx_formula.proofs.answers.strikes_lie_one_way.Goals as goal

pub returns : goal.returns
returns c = record { just_one = strikes_lie_one_way; lowest = lowest_between_is_one; greatest = greatest_at_most_is_one }
