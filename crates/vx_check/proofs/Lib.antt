-- Lemmas: what the checker keeps follows each event, and its answers are the defined ones.
pub mod Rising
pub mod TableSeries
pub mod TableTrades
pub mod TableLists
pub mod Strikes
pub mod Decisions
pub mod Verdicts
pub mod Pushes
pub mod NextSeries
pub mod NextTables
pub mod NextTrades
pub mod NextOpening
pub mod NextBook
pub mod AtTick
pub mod AtOpening
pub mod EachKind
pub mod Sound
