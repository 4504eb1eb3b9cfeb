-- The sum of a strip, what of it is kept, and its laws.
pub mod Sums
pub mod Totals
-- sums that are kept, and which of their rows are used again
pub mod Held
pub mod Kept
pub mod Matching
-- what holds of them
pub mod Laws
