pub mod Inputs
pub mod Plain
pub mod Numbers
pub mod Blocks
pub mod Clauses
pub mod Steps
pub mod Separate
pub mod Taken
