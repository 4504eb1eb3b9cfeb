-- Lemmas: what a lawful feed shows is in range.
pub mod InRange
pub mod StrikeCounts
pub mod PriceRanges
pub mod ShownProofs
