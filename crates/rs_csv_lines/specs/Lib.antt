pub mod Numbers
pub mod Fields
pub mod Names
pub mod Texts
pub mod Inserts
