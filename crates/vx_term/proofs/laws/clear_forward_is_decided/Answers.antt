use Rattle.vx_term.proofs.TermLaws.{clear_answer_is_decided as proof}
use Rattle.vx_term.proofs.laws.clear_forward_is_decided.Goals as goal

pub returns : goal.returns
returns c = λ P x facts a term scale fine lawful h of clear. proof P x facts lawful term of scale fine clear a h
