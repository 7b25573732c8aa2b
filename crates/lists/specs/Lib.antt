pub mod Distinct
pub mod Rising
pub mod Walks
pub mod Pairs
