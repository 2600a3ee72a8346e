mod Splits
mod Pairs
mod Merges
pub mod Resolving
mod Levels
mod Growing
