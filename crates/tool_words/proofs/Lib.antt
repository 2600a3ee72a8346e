pub mod OneValue
pub mod Faultless
pub mod WordsTaken
