-- what the lines say, and which of it is in range
pub mod Answers
-- what a line says, by its fields
pub mod Lines
-- what is told of a day
pub mod Days
-- scales with round numbers, and where a value stands in them
pub mod Scales
-- what lies in the picture, and why there is none
pub mod Pictures
