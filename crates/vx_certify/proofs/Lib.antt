-- Proofs of the laws of the index and of its decision.
pub mod IndexDecisionIsOne
pub mod IndexIsTight
