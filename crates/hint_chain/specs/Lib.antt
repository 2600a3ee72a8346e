pub mod Chains
pub mod Faults
pub mod Marks
pub mod Packed
