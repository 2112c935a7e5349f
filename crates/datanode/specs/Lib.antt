pub mod Cut
pub mod Node
pub mod Law
pub mod NextChange
