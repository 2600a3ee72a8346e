pub mod Brought
pub mod Covered
pub mod Walking
