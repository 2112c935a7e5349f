pub mod Level
pub mod Leaf
pub mod Ends
pub mod Gather
pub mod RangeChange
pub mod Shape
