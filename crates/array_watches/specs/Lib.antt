pub mod Reaching
pub mod Needed
pub mod Making
pub mod Watched
