mod ByComponents
mod Gathering
mod Standing
mod Summing
mod Together
mod TrimLaw
