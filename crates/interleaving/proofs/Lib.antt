mod AlterIdle
mod AlterKeeps
mod StepEnded
pub mod SystemEnded
pub mod SystemKeeps
pub mod SystemListed
pub mod SystemStepped
pub mod SystemWritten
pub mod MigrateFirst
