pub mod Scripts
pub mod Summaries
pub mod Keeping
