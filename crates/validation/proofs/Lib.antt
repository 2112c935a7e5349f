pub mod EngineAdding
pub mod ConflictUnits
pub mod ConflictNone
pub use Rattle.staging.proofs as staging
pub use Rattle.staging.proofs.treenodes as treenodes
