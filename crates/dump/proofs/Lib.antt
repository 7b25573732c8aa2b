mod Dumped
mod Filled
mod Listed
mod Loaded
mod Rooms
mod Walking
