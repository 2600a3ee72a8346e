pub mod Entries
pub mod Differing
pub mod Reading
pub mod Rows
pub mod TableReading
pub mod Changing
