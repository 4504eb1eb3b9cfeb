use Rattle.vx_term.proofs.TermLaws.{term_answer_means as proof}
use Rattle.vx_term.proofs.laws.answer_is_meant.Goals as goal

pub returns : goal.returns
returns c = λ P x facts a lawful h. proof P x facts lawful a h
