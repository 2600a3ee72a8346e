pub mod Likeness
pub mod LikeTerms
pub mod Elements
pub mod Rows
pub mod Reading
pub mod Found
pub mod Declared
pub mod Bare
