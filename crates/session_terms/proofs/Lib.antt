pub mod Placing
pub mod Bare
pub mod Planned
pub mod Unmoved
pub mod Back
pub mod Walked
