pub mod Rows
pub mod Puts
pub mod Blocks
pub mod Walks
pub mod Units
