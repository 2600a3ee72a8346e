pub mod Alike
pub mod Fitting
pub mod Reading
pub mod Found
pub mod Written
