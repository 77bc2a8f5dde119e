pub mod Calls
pub mod Finding
pub mod Inserting
pub mod Writing
