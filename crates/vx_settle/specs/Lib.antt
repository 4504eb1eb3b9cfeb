-- what a position is, how its line is read, and what it settles to
pub mod Position
pub mod Form
pub mod Amount
-- what holds of amounts
pub mod Laws
