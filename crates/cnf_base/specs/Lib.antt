pub mod Literals
pub mod Clauses
pub mod Assignments
pub mod Gates
pub mod Circuits
pub mod Adders
pub mod Choices
