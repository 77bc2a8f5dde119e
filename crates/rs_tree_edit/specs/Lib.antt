pub mod Choosing
pub mod Editing
pub mod Parts
