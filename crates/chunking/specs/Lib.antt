pub mod Chunkings
pub mod Laws
