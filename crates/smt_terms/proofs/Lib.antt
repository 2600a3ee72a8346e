mod Places
pub mod Recursion
pub mod Growing
pub mod Made
pub mod Arrays
pub mod Typing
pub mod Widths
pub mod Arities
mod Rotations
pub mod Evaluating
mod Making
mod Spans
