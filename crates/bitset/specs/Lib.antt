pub mod OneBit
pub mod Places
pub mod Sets
pub mod WordSets
pub mod Words
pub mod Members
