pub mod Giving
pub mod Building
pub mod Choosing
pub mod Closed
pub mod Encoded
pub mod Modeled
pub mod Rows
pub mod Descending
