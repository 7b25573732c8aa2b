pub mod Changes
pub mod Laws
pub mod Moves
pub mod Rows
pub mod Numbers
