pub mod Scopes
pub mod Cores
