pub mod Splitting
pub mod Tables
pub mod Reading
pub mod Hints
pub mod Sound
pub mod Chains
