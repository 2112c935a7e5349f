pub mod DumpGone
mod DumpInstants
mod DumpKeys
pub mod DumpLawHolds
pub mod DumpLogs
mod DumpOwn
pub mod DumpOwnWrites
pub mod DumpRows
mod DumpRowsSet
mod DumpTurns
pub mod DumpWrites
mod PiecesInserted
pub mod PiecesRows
mod PiecesWrites
pub mod WidthsAdded
pub mod WidthsGrown
pub mod WidthsLaidOut
pub mod WidthsTables
