-- What a feed says, which line may come next, and how lines are read and written.
pub mod Same
pub mod Said
pub mod Standing
pub mod Listed
pub mod Opening
pub mod Ranges
pub mod Order
pub mod Form
pub mod Feed
pub mod Noted
pub mod Next
pub mod NextEvents
pub mod NextRows
pub mod LawfulPrefixes
pub mod Written
