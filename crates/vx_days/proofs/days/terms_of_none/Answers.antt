-- Each part of the law is a lemma of its own.
use Rattle.vx_days.proofs.TermExampleProofs.{no_near_of_none, no_next_of_none}
use Rattle.vx_days.proofs.days.terms_of_none.Goals as goal

pub returns : goal.returns
returns c = record { near = no_near_of_none; next = no_next_of_none }
