mod Calls
mod Drafting
mod Marking
mod Passing
