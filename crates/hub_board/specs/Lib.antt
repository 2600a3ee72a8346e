pub mod Chains
pub mod Filing
pub mod Boards
pub mod Cubes
