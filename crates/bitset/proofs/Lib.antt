pub mod Counts
pub mod Operations
pub mod Shifts
