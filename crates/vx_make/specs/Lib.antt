-- The sample feed of a number: what is drawn, the quotes, and the events.
pub mod Drawing
pub mod Quotes
pub mod Feed
pub mod Pieces
pub mod ReadBack
pub mod Lawful
