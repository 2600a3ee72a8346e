pub mod Writing
pub mod Solving
pub mod Searching
pub mod Efforts
