-- Lemmas on decimals and their texts, on squares, quotients and fractions.
pub mod Differences
pub mod Texts
pub mod Decimals
mod AllPlaces
pub mod ReadBack
pub mod Whole
pub mod WrittenLemmas
pub mod Squares
pub mod Quotients
pub mod Fractions
