pub mod Asking
pub mod Parts
pub mod Quotients
