pub mod Dump
pub mod DumpLaw
pub mod Pieces
pub mod Widths
pub mod WorkedDumpSteps
