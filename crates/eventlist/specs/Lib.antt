pub mod KeyGroup
pub mod Listing
pub mod Overtaking
pub mod Place
pub mod Nearby
pub mod Put
pub mod Sort
