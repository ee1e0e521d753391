pub mod Questions
pub mod Shares
