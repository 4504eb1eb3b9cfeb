use Rattle.vx_forward.proofs.AnswersAreOne.{answer_is_one as proof}
use Rattle.vx_forward.proofs.laws.answer_is_one.Goals as goal

pub returns : goal.returns
returns c = proof
