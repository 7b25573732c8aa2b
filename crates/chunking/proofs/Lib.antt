pub mod Fronts
pub mod Joins
pub mod Sums
pub mod Stacks
pub mod Uniqueness
