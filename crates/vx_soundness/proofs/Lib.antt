-- Lemmas towards the theorem that what is accepted means what it says.
pub mod ExponentialLemmas
pub mod TermLemmas
pub mod FigureLemmas
pub mod RowLemmas
pub mod TermAt
pub mod NoRefusal
pub mod Meaning
