pub mod Book
pub mod Copy
pub mod Ending
pub mod Outcomes
pub mod Refusal
pub use Rattle.journal.specs as journal
pub use Rattle.transaction.specs as transaction
pub use Rattle.validation.specs as validation
pub use Rattle.validation.specs.staging as staging
pub use Rattle.validation.specs.treenodes as treenodes
pub use Rattle.validation.specs.tsbtree as tsbtree
