pub mod Searching
pub mod Keeping
pub mod Naming
pub mod Blaming
pub mod Standing
pub mod Asserting
