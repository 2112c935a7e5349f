pub mod FromChanges
mod OfHistoriesNets
mod OfHistoriesOver
pub mod OneKeyWrites
pub mod RebuiltKeys
pub mod RebuiltNet
pub mod RebuiltRows
mod RoomNets
mod RebuiltSets
