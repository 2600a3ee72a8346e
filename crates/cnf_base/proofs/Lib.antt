pub mod Lists
pub mod Options
pub mod Codes
pub mod Truth
pub mod Rows
pub mod Numbers
pub mod Agreeing
pub mod Meaning
pub mod Growing
pub mod Extending
pub mod Adding
pub mod Choosing
pub mod Equating
mod Worked
