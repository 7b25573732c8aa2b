pub mod Copies
pub mod Fronts
