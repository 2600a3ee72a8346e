pub mod Reading
pub mod Arguments
pub mod Rules
pub mod Matches
pub mod Numbers
