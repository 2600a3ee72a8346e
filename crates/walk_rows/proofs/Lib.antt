pub mod Fitted
pub mod Making
