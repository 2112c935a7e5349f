pub mod Account
pub mod BookRefusals
pub mod Line
pub mod Ends
pub mod Serving
pub mod ServedSession
pub mod Progress
pub use Rattle.sessions.specs.book as book
pub use Rattle.sessions.specs as sessions
pub use Rattle.sessions.specs.staging as staging
pub use Rattle.sessions.specs.tsbtree as tsbtree
pub use Rattle.sessions.specs.validation as validation
pub use Rattle.sessions.specs.journal as journal
