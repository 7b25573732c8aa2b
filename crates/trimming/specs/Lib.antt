pub mod Nets
pub mod Orders
pub mod Ties
pub mod Rooms
pub mod Counts
pub mod Teams
pub mod Turns
