pub mod Event
pub mod OneHistory
pub mod Run
pub mod Tells
pub mod Worked
