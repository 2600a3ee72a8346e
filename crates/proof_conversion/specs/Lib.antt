pub mod Parts
pub mod Needs
pub mod Scans
pub mod Filing
pub mod Headers
pub mod Conversions
pub mod Writing
