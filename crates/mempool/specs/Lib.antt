pub mod Pools
pub mod Requests
