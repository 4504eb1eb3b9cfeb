-- Lemmas on the order of terms, and on days and their texts.
pub mod TermOrder
pub mod TermsAreOne
pub mod Best
pub mod DigitFacts
pub mod DigitText
pub mod DayNumbers
pub mod DayTexts
pub mod ClockTexts
pub mod TextRanges
