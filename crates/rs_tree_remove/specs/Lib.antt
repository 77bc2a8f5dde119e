pub mod Calls
pub mod Leaving
pub mod Finishing
pub mod Mending
