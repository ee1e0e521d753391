pub mod Figures
pub mod Pools
