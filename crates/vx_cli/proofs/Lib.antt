-- Lemmas on the words of the commands and on what they write.
mod OperandLemmas
mod RequestLemmas
-- what is written is one
mod CheckIsOne
mod ReplayIsOne
mod SettleIsOne
mod CheckLemmas
mod JudgeLemmas
mod VersionLemmas
-- the answers of `replay`
mod AnswerLemmas
-- the answers that `drill` counts
mod DrillLemmas
mod CountLemmas
mod RangeLemmas
mod ReplayLemmas
mod SampleLemmas
-- how `make` sends
mod PiecesLemmas
mod TextDeskLemmas
-- the answers of `settle`
mod SettleLemmas
mod LineLemmas
mod SheetLemmas
-- what `replay` and `settle` wrote is accepted
mod PublishedMeans
mod ReplayAccepted
mod UpToOpening
mod SettleAccepted
-- that what was sent is true, and how runs over lawful input end
mod HeadlineLines
mod HeadlineChecks
mod HeadlineTicks
mod HeadlineOpening
mod HeadlineLemmas
mod LawfulExitLemmas
