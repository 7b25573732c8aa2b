pub mod Listings
pub mod Loading
pub mod Replies
