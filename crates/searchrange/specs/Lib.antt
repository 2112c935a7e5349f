pub mod Entity
pub mod OnlyKey
pub mod Search
pub mod SearchRange
