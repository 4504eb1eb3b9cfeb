-- there is an answer
pub mod Existence
-- a day whose answer is written out
pub mod DayExamples
