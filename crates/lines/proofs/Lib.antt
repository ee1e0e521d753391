pub mod Fields
pub mod Holding
pub mod Walking
pub mod Trips
pub mod Sending
