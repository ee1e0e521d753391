pub mod Listings
pub mod Steps
