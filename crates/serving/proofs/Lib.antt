pub mod ServeFeeding
pub mod ServeJoining
pub mod MigrateIdle
pub mod ProgressAsking
pub mod StepOpening
pub mod AnswerRefusing
pub mod BookRefusalsKnown
pub mod ServeStarting
pub mod ServeLineTelling
pub mod WriteSteps
pub use Rattle.sessions.proofs as sessions
pub use Rattle.sessions.proofs.staging as staging
pub use Rattle.sessions.proofs.journal as journal
