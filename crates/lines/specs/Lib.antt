pub mod Answers
pub mod Letters
pub mod Questions
pub mod Lines
pub mod Reading
pub mod Writing
