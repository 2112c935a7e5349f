pub mod EntityKeys
pub mod NoOverlap
pub mod Point
pub mod Units
