pub mod Shapes
pub mod Lemmas
pub mod Named
