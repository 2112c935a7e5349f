pub mod Fault
pub mod Round
