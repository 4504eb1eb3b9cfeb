-- Proofs of the laws of the formula, and lemmas about its definitions.
pub mod Lists
pub mod Ends
pub mod PairLemmas
pub mod LevelLemmas
pub mod FigureLemmas
pub mod SelectionLemmas
pub mod Walks
pub mod RefusalPlaces
pub mod RefusalLemmas
pub mod RangeLemmas
pub mod ExampleProofs
pub mod BestOf
pub mod Comparisons
pub mod StrikeCases
pub mod EndLemmas
pub mod RowDecisions
pub mod TermOutcomes
