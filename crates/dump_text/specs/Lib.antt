pub mod Lines
pub mod Lists
pub mod Reading
pub mod Testing
