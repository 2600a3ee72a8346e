pub mod Searches
pub mod Finds
pub mod Framings
pub mod Cuts
pub mod Driver
pub mod Rows
pub mod Strings
pub mod Spelled
pub mod Decimals
mod Readings
