pub mod Conflict
pub mod Split
pub use Rattle.staging.specs as staging
pub use Rattle.staging.specs.treenodes as treenodes
pub use Rattle.staging.specs.tsbtree as tsbtree
