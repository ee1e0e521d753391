pub mod Lines
pub mod Requests
pub mod Words
