pub mod Pools
pub mod Staying
pub mod Work
