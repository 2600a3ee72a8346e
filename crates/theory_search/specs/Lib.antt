pub mod Theories
pub mod Ends
pub mod Looks
pub mod Puts
