use Rattle.vx_term.proofs.TermAnswerIsOne.{term_answer_is_one as proof}
use Rattle.vx_term.proofs.laws.term_answer_is_one.Goals as goal

pub returns : goal.returns
returns c = proof
