-- Lemmas on the lines that `csv` splits.
pub mod CsvLines
pub mod CsvReader
pub mod BlockLines
pub mod TextLemmas
