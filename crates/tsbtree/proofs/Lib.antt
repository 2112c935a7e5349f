pub mod SameLists
pub mod ViewLeaf
pub mod TreeSplit
pub mod PackingFound
pub mod PackingPast
pub use Rattle.treenodes.proofs as treenodes
pub use Rattle.treewalk.proofs as treewalk
