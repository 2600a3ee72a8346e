pub mod Searched
pub mod Workers
pub mod Histories
pub mod Crews
pub mod Closed
pub mod Hired
