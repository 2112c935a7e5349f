pub mod First
pub mod Replay
pub mod Replaying
pub mod Script
pub mod Taking
pub mod Transcript
