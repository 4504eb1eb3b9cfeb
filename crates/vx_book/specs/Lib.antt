-- What the book keeps of a feed, and the list of events for which it stands.
pub mod Series
pub mod Tables
pub mod Opening
pub mod StandsFor
