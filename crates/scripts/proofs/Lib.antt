pub mod ScriptFeeding
pub mod ScriptLeading
pub mod ScriptRunning
pub mod ScriptAnswered
mod ReplayPassed
mod ReplayGoing
