-- Proofs of the laws of amounts.
pub mod Amounts
pub mod Netting
