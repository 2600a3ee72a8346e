pub mod Operators
pub mod Lines
pub mod Reading
pub mod Held
pub mod Entries
pub mod Records
pub mod Deletions
