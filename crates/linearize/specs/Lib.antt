pub mod Drafts
pub mod Graphs
pub mod Known
pub mod Near
pub mod Orders
pub mod Splits
pub mod Steps
