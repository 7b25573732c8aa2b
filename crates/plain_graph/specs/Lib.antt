pub mod Plain
pub mod Walks
pub mod Sound
pub mod Joins
pub mod Rests
pub mod Overs
