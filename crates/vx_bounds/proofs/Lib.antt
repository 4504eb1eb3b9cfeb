-- Lemmas on the rounded terms of the exponential, on roots, and on the decision of a figure.
pub mod TermLemmas
pub mod EndLemmas
pub mod Loops
pub mod Straddles
pub mod Roots
pub mod Steps
pub mod Values
pub mod Signed
-- roots and decisions are one
pub mod RootsAreOne
pub mod DecisionIsOne
