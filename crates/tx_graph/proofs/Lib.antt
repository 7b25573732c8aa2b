pub mod Standing
pub mod Oversizing
mod Picked
mod Tops
mod Rows
mod Counting
mod Tables
mod Added
mod Blocks
mod Paired
mod Paid
mod Dropped
mod Lost
mod Lessened
mod Limited
mod Staged
mod Unchanged
mod Reading
mod Telling
mod Drawn
mod Settled
mod Calls
mod Mined
mod Rooms
mod Starts
mod Returns
mod Backs
mod Asked
pub mod Kins
pub mod MainOrders
