pub mod Calls
pub mod Chains
pub mod Changes
pub mod Inner
pub mod Picked
pub mod Seen
pub mod Turns
