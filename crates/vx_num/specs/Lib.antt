-- Decimals, fractions, quotients and squares, and the texts of numbers.
pub mod Decimal
pub mod Fraction
pub mod Quotient
pub mod Runs
pub mod SignedSquare
pub mod Written
