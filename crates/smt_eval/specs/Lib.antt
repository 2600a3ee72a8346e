pub mod Evaluated
pub mod Asked
