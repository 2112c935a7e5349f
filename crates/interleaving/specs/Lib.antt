pub mod AlterStep
pub mod MigrateStep
pub mod StepLeaves
pub mod SystemState
pub mod TreeStep
