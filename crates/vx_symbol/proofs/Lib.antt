-- Lemmas on the texts of symbols.
pub mod SymbolTexts
mod RootTexts
