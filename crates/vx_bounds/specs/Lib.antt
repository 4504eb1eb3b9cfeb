-- The ends of the exponential and of the root, and the decision on a figure.
pub mod Exponential
pub mod Root
pub mod Cents
pub mod Laws
