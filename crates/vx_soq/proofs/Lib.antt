-- the opening's answer is one
pub mod FigureIsOne
pub mod OpeningAnswerIsOne
-- and is lawful
pub mod LawfulOpenings
-- and what is clear is answered
pub mod Completeness
-- it stays, whatever comes after the opening
pub mod Stays
-- its certificate can be written
pub mod Writable
-- and it comes from what the book shows
pub mod FromBook
