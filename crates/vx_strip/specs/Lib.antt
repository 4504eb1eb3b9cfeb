-- The entries of a strip, and why there is none.
pub mod Entries
pub mod Refusals
