-- Lemmas on the ends of intervals: directed rounding, enclosure and width.
pub mod EndsLemmas
pub mod RoundingLemmas
pub mod Enclosures
pub mod Squares
pub mod Widths
pub mod Ranges
pub mod Insides
