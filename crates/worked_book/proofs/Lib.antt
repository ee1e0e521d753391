pub mod Growing
pub mod Turns
