pub mod Signs
pub mod Orders
pub mod Shifts
