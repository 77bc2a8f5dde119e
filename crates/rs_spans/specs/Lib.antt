pub mod Removal
pub mod Left
pub mod Within
