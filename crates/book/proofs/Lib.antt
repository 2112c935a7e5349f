pub mod BookGrowing
pub mod BookNaming
pub use Rattle.journal.proofs as journal
pub use Rattle.validation.proofs as validation
pub use Rattle.validation.proofs.staging as staging
pub use Rattle.validation.proofs.treenodes as treenodes
pub mod BookCopying
