pub mod Events
pub mod Filed
pub mod Known
pub mod Rule
pub mod Moves
pub mod Seated
