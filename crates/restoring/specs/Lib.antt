pub mod FromChanges
pub mod OfHistories
pub mod OneKey
pub mod Rebuilt
pub mod Room
