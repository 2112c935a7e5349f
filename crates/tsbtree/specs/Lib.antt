pub mod View
pub mod Leaf
pub mod Copy
pub mod Growth
pub mod Packing
pub use Rattle.treegrowth.specs as treegrowth
pub use Rattle.treenodes.specs as treenodes
pub use Rattle.treewalk.specs as treewalk
