pub mod Changes
pub mod Counts
pub mod Owners
pub mod Calls
