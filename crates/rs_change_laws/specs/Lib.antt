pub mod Changing
pub mod Clearing
pub mod Parts
pub mod Standing
