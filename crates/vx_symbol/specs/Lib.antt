-- Symbols of option series, the rows of a term, and their texts.
pub mod Symbol
pub mod Rows
pub mod SymbolText
