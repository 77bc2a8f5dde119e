pub mod Copying
pub mod Numbering
