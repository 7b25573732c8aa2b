pub mod Widths
pub mod CoversLeft
pub mod AncestorsLeft
