mod Shapes
pub mod Marking
mod Stepping
pub mod Packing
pub mod Sound
pub mod Exact
pub mod Growing
