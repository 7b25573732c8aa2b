mod Linking
pub mod Placing
