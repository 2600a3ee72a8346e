pub mod Circuits
pub mod Blocks
pub mod Meanings
pub mod Assigned
