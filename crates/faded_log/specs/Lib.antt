pub mod Faded
pub mod Slots
