-- The bracket of the exponential, and its laws.
pub mod Bracket
pub mod Cleared
pub mod Laws
