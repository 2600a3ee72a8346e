mod Tables
mod Removing
mod Sets
mod Using
mod Keys
mod Holding
mod Each
pub mod Starting
mod Puts
pub mod Reading
pub mod About
