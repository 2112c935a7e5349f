pub mod Options
pub mod Fault
pub mod Replay
pub mod Load
pub mod Dumped
pub mod Export
pub mod Server
pub mod Program
