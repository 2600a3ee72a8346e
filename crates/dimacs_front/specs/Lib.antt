pub mod Words
pub mod Rows
pub mod Cnf
pub mod Lrat
pub mod Marks
pub mod Chains
