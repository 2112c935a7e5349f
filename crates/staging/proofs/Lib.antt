pub mod OverlapSeen
pub mod PortionDone
pub mod PortionStarts
pub mod StagedOne
pub mod StagedAnswered
pub mod ViewBridge
pub mod StagedCalls
pub mod StagedEarlier
pub mod StagedEntries
pub mod BoundKept
pub mod ViewKeyTable
pub mod ViewNarrowed
pub mod StagedBuilt
pub mod StagedMerged
pub mod NetEvents
pub mod StagedPutBack
pub mod StagedSeen
pub mod StagedTaken
pub mod StagedWide
pub mod UpdateStored
pub use Rattle.tsbtree.proofs.treenodes as treenodes
pub use Rattle.tsbtree.proofs.treewalk as treewalk
