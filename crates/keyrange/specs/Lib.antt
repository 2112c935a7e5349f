pub mod Range
pub mod Rect
pub mod Cut
pub mod Law
pub mod Equality
