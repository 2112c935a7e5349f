pub mod Readable
pub mod ReadableHistories
pub mod ReadableRuns
pub mod Replayed
pub mod WorkedDumpText
