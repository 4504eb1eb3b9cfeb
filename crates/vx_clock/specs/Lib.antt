-- Days, minutes and terms, and the texts of days, times and roots.
pub mod Digits
pub mod Day
pub mod Clock
pub mod Minutes
pub mod Terms
pub mod RootText
pub mod DayText
