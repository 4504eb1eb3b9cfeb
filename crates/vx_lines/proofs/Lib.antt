-- Lemmas on the lines of a text.
pub mod LineLemmas
pub mod MostLemmas
pub mod CutLemmas
