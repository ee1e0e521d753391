pub mod Parts
pub mod Placing
pub mod Joining
