pub mod Faults
pub mod Transfers
pub mod Memory
pub mod Adapters
