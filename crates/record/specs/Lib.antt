pub mod Records
pub mod Kept
pub mod Parents
pub mod Changes
pub mod Solving
pub mod Steps
pub mod Leaving
pub mod Restoring
