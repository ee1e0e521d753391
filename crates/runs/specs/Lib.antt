pub mod History
pub mod Runs
