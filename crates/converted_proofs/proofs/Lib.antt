pub mod Noted
pub mod Texts
pub mod Places
pub mod Lighter
pub mod Walking
pub mod Parting
pub mod Placed
pub mod Accepting
