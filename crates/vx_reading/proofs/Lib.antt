-- Lemmas on the lines that are read ahead and on the events taken from them.
pub mod FaultLemmas
pub mod FeedLemmas
mod NextLemmas
mod RunLemmas
mod SayLemmas
