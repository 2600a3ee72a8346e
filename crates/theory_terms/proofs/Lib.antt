pub mod Ranked
pub mod Shapes
pub mod Sound
pub mod Trips
pub mod Truths
pub mod Held
pub mod Longer
pub mod Axioms
