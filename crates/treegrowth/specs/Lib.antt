pub mod Point
pub mod Growth
pub mod Commit
pub mod Leaves
pub mod Places
