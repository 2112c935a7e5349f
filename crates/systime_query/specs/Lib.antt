pub mod Selection
pub mod Window
pub use Rattle.staging.specs as staging
pub use Rattle.staging.specs.tsbtree as tsbtree
