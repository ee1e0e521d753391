pub mod Answers
pub mod Remaining
pub mod Pages
pub mod Steps
pub mod Billed
pub mod Sums
