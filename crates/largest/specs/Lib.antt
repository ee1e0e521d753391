pub mod Largest
pub mod Packing
pub mod Remainders
pub mod Counts
