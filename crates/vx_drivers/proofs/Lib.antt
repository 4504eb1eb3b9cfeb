-- Lemmas on the steps of a run, on its exits, and that it has one text.
pub mod AlongLemmas
pub mod CauseLemmas
mod CertificateLemmas
pub mod ExitLemmas
mod FailureLemmas
pub mod OneRun
pub mod PositionLawLemmas
pub mod PositionLinesLemmas
pub mod PositionRunIsThere
pub mod PositionRunLemmas
pub mod RunIsThere
pub mod RunLemmas
pub mod SendingLemmas
pub mod TickLawLemmas
pub mod TickLemmas
pub mod TickRunLemmas
