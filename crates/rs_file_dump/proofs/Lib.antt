pub mod Files
pub mod Dumps
pub mod Looks
pub mod Stopping
