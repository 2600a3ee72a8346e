pub mod Shapes
pub mod Becoming
pub mod Weights
pub mod Making
pub mod Simplifying
pub mod Kept
