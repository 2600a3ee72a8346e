pub mod Needed
pub mod Plans
pub mod Settled
pub mod Tables
