pub mod Sorted
pub mod Drafts
