pub mod Idle
pub mod Listing
pub mod Misfit
pub mod Reply
pub mod StepOf
pub mod Write
