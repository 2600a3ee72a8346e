mod Selectors
mod Reading
mod Noted
mod Found
mod Longer
mod Calls
mod Finding
mod Placing
mod Lining
mod Parts
mod Earlier
mod Files
pub mod TakenFirst
