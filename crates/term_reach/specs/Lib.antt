pub mod Reach
pub mod Walks
pub mod Tables
