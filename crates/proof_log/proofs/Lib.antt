pub mod Growing
mod Finding
mod Rows
mod Flat
pub mod Placing
pub mod Placed
mod Rules
pub mod Sound
pub mod Staying
pub mod Selecting
pub mod Ordered
pub mod Standing
pub mod Linked
pub mod Settled
pub mod Assigned
pub mod Leaves
mod Tried
mod Worked
pub mod Growth
pub mod Equalities
pub mod Adding
pub mod Lines
