mod Each
mod Arriving
pub mod Parts
pub mod Literals
pub mod Keeping
pub mod Below
