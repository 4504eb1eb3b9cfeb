-- What the checker keeps of a feed, and what it answers to a certificate.
pub mod Rising
pub mod Kept
pub mod Trades
pub mod Tables
pub mod Opening
pub mod NextRows
pub mod Answers
pub mod Numbers
pub mod StandsFor
pub mod Reached
