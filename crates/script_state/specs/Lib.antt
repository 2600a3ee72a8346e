pub mod ErrorTexts
pub mod Plain
pub mod Options
pub mod Readings
pub mod Written
pub mod States
pub mod Steps
pub mod Asking
