-- Intervals of fractions, their members, and their laws.
pub mod Ends
pub mod Rounding
pub mod Membership
pub mod Laws
