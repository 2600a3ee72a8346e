pub mod Circuits
pub mod Reached
pub mod Opening
