mod Copying
pub mod Reaching
