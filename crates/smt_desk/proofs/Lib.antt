mod Counting
pub mod Metering
