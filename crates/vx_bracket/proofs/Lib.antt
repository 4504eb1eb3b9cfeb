-- Lemmas: the sums with cleared denominators are the fractions of the bracket.
pub mod Cleared
pub mod Terms
pub mod Series
pub mod Members
