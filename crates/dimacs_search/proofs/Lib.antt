pub mod Reading
pub mod Pushing
pub mod Tables
pub mod Telling
pub mod Holding
pub mod Models
pub mod Variables
