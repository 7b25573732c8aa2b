pub mod Products
pub mod Rates
pub mod Sums
pub mod Bounds
