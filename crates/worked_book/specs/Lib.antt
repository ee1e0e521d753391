pub mod InTurn
pub mod Calls
