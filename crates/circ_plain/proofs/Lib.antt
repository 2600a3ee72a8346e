pub mod Bits
pub mod Negating
pub mod Comparing
pub mod Powers
pub mod Shifting
pub mod Stages
pub mod Joining
pub mod Ordering
