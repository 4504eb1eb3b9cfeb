-- Lemmas on the sum of a strip, from nothing and from what was kept.
pub mod Division
pub mod Matches
pub mod RowByRow
pub mod Enclosure
pub mod SumIsOne
