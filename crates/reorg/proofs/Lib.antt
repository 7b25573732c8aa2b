pub mod Lifted
mod Blocks
mod Descending
mod Whole
mod Mining
mod Pairing
mod Unmining
mod Unions
