pub mod Reads
pub mod Endings
pub mod Findings
