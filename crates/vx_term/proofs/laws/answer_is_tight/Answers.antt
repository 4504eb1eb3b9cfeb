use Rattle.vx_term.proofs.TermLaws.{term_answer_is_tight as proof}
use Rattle.vx_term.proofs.laws.answer_is_tight.Goals as goal

pub returns : goal.returns
returns c = λ P x facts a scale lawful h. proof P x facts lawful scale a h
