pub mod States
pub mod Tables
pub mod Facts
pub mod Referents
pub mod Located
pub mod Insertion
pub mod Removal
