pub mod Calls
pub mod Bounds
pub mod Checking
pub mod Entering
pub mod Validating
pub mod Clearing
