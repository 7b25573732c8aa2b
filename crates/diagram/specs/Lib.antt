pub mod Parts
pub mod Points
pub mod Walks
pub mod Comparisons
