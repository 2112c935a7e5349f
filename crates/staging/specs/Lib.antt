pub mod Bound
pub mod View
pub mod Own
pub mod Net
pub mod Staged
pub use Rattle.tsbtree.specs.treegrowth as treegrowth
pub use Rattle.tsbtree.specs.treenodes as treenodes
pub use Rattle.tsbtree.specs.treewalk as treewalk
pub use Rattle.tsbtree.specs as tsbtree
