-- Lemmas on the events of a sample feed.
pub mod FeedLemmas
mod LineLemmas
pub mod PiecesLemmas
mod WrittenEvents
mod SampleEvents
pub mod SampleFeeds
