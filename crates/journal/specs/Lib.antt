pub mod BegunState
pub mod Entries
pub mod Legal
pub mod JournalState
