-- Lemmas on what a certificate reads and writes.
pub mod Values
pub mod Reading
pub mod Faults
pub mod WrittenTexts
pub mod WrittenData
pub mod OneReading
pub mod ReadRanges
pub mod WrittenBack
pub mod WrittenRead
pub mod WrittenLine
pub mod WrittenLength
