-- What a feed shows, when a certificate is accepted, what that means, and which answers are lawful.
pub mod Seen
-- the tests
pub mod Test
pub mod Exponential
pub mod TermTests
pub mod FigureTests
pub mod Accepts
-- what they show, and what the product answers
pub mod Means
pub mod Answers
-- what holds of them
pub mod Laws
pub mod TickOutcomes
