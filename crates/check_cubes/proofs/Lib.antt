mod Rising
mod Unruled
mod Drawn
mod Splitting
mod Cubed
pub mod Searched
