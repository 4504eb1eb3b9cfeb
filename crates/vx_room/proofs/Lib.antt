-- How long the texts of numbers are.
pub mod Lengths
