pub mod Merging
pub mod Rooms
pub mod Tailed
