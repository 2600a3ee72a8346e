pub mod Arrays
pub mod Differences
pub mod Tables
pub mod Readings
pub mod Held
