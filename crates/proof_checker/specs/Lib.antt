pub mod Checkers
pub mod Checked
pub mod Checkings
pub mod Reports
pub mod Blanks
pub mod Written
pub mod Naming
pub mod Deletions
