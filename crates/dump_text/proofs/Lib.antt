mod Covering
mod Neighbours
pub mod Rising
mod Spelled
