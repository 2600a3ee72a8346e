pub mod Against
pub mod Lining
pub mod Naming
pub mod Splits
pub mod Chunking
pub mod Telling
pub mod Alike
pub mod Noted
pub mod Likening
pub mod Keeping
pub mod Verdicts
pub mod Passing
pub mod Fronts
pub mod RightFronts
pub mod Moving
pub mod Blanks
pub mod Valued
pub mod WrittenArrays
pub mod WrittenTables
pub mod Noting
pub mod Heading
mod Deleting
mod Starting
mod Forgetting
mod Searching
