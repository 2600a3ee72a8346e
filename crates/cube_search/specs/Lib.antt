pub mod Holding
pub mod Keeping
pub mod Running
pub mod Ends
pub mod Later
