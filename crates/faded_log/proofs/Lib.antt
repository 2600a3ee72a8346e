pub mod States
pub mod Weaving
pub mod Holding
pub mod Fading
mod Slots
