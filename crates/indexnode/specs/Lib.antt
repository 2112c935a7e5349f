pub mod Choice
pub mod Node
pub mod Replacement
pub mod Search
pub mod Split
