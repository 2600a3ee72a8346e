mod Chains
pub mod Filing
pub mod Seen
pub mod Stepping
mod Worked
