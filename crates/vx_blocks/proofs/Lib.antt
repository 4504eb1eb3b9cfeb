-- Lemmas on lines that are read ahead: what is to come of them, and what was given.
pub mod GivenLemmas
pub mod FreshLemmas
pub mod FaultLemmas
pub mod ComingLemmas
pub mod TakeLemmas
pub mod BlockLemmas
