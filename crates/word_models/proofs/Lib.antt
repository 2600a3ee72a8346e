pub mod Rows
pub mod Constants
pub mod Leaves
pub mod Others
pub mod Found
