pub mod Tables
pub mod Ways
pub mod Rising
pub mod Walking
