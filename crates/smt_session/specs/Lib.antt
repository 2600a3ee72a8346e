pub mod Growing
pub mod Planning
pub mod Searched
pub mod Tabled
pub mod Blaming
pub mod Thorough
pub mod Sessions
pub mod Parts
