pub mod Calls
pub mod Content
pub mod Counts
pub mod Crash
pub mod Failing
pub mod Folder
pub mod Memory
pub mod Reaches
