-- One term's numbers on the way to its variance, what they mean, and their laws.
pub mod Exponential
pub mod Variance
pub mod Index
pub mod Ranges
pub mod Runs
pub mod Answer
pub mod Meaning
pub mod Holds
pub mod Tight
pub mod Steps
pub mod KeptAfter
pub mod Laws
