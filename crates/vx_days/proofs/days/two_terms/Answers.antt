-- Each part of the law is a lemma of its own.
use Rattle.vx_days.proofs.TermExampleProofs.{days_are_numbered, near_of_september_23, next_of_september_23, near_of_september_24, next_of_september_24}
use Rattle.vx_days.proofs.days.two_terms.Goals as goal

pub returns : goal.returns
returns c = record {
  numbered = days_are_numbered;
  near_of_23 = near_of_september_23;
  next_of_23 = next_of_september_23;
  near_of_24 = near_of_september_24;
  next_of_24 = next_of_september_24;
}
