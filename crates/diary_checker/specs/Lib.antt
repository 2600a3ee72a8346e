pub mod Tables
pub mod Uses
pub mod Starts
pub mod Readers
