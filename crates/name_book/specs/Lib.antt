pub mod Books
pub mod Calls
pub mod Changes
pub mod Tables
