pub mod Products
pub mod Quotients
pub mod Signed
pub mod Sizes
