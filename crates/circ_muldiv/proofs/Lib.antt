pub mod Multiplying
pub mod Dividing
pub mod Signs
pub mod Counting
pub mod Building
pub mod Places
pub mod Assembling
pub mod Ordering
mod Worked
