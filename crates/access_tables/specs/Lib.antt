pub mod Leading
pub mod Ready
pub mod Tables
pub mod Built
pub mod Held
pub mod Modeled
pub mod Encoded
