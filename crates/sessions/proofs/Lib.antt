pub mod OfHistoryAlike
pub mod OfHistoryEnded
pub mod OfHistoryListed
pub mod OfHistoryShown
pub mod StoreBeginning
pub mod StoreCrossing
pub mod SessionEnding
pub mod StoreOfHistoryAlike
pub mod SessionWriting
pub use Rattle.book.proofs.staging as staging
pub use Rattle.book.proofs.journal as journal
pub use Rattle.book.proofs.validation as validation
pub use Rattle.book.proofs.treenodes as treenodes
