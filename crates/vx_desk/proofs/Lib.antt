-- Lemmas on desks: what is told of them, read from them and sent to them.
pub mod SendingLemmas
pub mod ReaderLemmas
pub mod NextLemmas
pub mod UntoldLemmas
pub mod MemoryLemmas
pub mod ComingLemmas
pub mod CallLemmas
pub mod HeldLemmas
