pub mod Ahead
pub mod Held
pub mod Kept
pub mod Oldest
pub mod Sessions
