pub mod Fitting
pub mod Numbered
pub mod Ranking
pub mod Lighter
pub mod Made
pub mod Lasting
pub mod Following
