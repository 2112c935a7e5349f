pub mod Lines
pub mod Partial
