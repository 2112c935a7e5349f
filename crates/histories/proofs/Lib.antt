pub mod StandsEnds
pub mod HistoryGrowth
pub mod HistoryIdle
pub mod Maintenance
pub mod Memory
pub mod HistoryNow
pub mod StandsOpen
pub mod HistoryOpens
pub mod HistoryPast
pub mod HistoryPrefixes
pub mod DueRuns
pub mod StandsShown
pub mod HistorySnapshots
pub mod TurnReplies
pub mod Winners
mod LawRefused
mod HistorySorted
mod ConflictOrder
mod ConflictFound
mod ConflictLeast
mod CommitLawRows
mod CommitLawPoints
pub mod WorldGrowth
pub mod TurnWrites
pub mod TurnWritten
pub mod StandsAltered
pub mod HistoryTables
mod HistoryWidened
mod PeriodLawFits
pub mod HistoryOwn
mod PeriodLawTables
mod PeriodLawWrites
mod PeriodLawApart
mod PeriodLawPoints
mod WorkedTables
mod AlikeIdle
