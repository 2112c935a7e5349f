pub mod SessionState
pub mod Refusal
pub mod Store
pub mod Copy
pub mod OfHistory
pub mod StoreOfHistory
pub use Rattle.book.specs as book
pub use Rattle.book.specs.staging as staging
pub use Rattle.book.specs.transaction as transaction
pub use Rattle.book.specs.treenodes as treenodes
pub use Rattle.book.specs.tsbtree as tsbtree
pub use Rattle.book.specs.journal as journal
pub use Rattle.book.specs.validation as validation
