-- Lemmas: each test of a certificate is decided as it is defined.
pub mod Decisions
pub mod StripLemmas
pub mod Products
pub mod Comparisons
pub mod TermRanges
