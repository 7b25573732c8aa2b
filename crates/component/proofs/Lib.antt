pub mod Wider
pub mod Packed
mod Kept
mod Following
mod Same
mod Sizes
pub mod Rooms
