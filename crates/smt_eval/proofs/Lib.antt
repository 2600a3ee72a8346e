pub mod Taking
pub mod Evaluating
pub mod Stores
pub mod Calling
pub mod Suiting
pub mod Placing
pub mod Fillings
