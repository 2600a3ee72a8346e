pub mod Sounds
pub mod Accounts
pub mod Acts
