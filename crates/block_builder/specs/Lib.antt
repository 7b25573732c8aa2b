pub mod Building
pub mod Drafts
