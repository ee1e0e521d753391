pub mod Answers
pub mod Listing
