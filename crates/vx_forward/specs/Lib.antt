-- the pair, the forward's ends, and the level that they tell
pub mod Pairs
pub mod Forward
pub mod Level
-- what holds of them
pub mod Laws
