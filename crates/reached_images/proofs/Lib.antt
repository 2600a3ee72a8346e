mod Tables
pub mod Knowing
pub mod Stepping
pub mod Needing
pub mod Whole
pub mod Turning
pub mod Leading
pub mod Picking
pub mod Owning
