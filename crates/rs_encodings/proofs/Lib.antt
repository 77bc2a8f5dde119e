-- Lemmas of this crate.
pub mod Windows
pub mod Characters
pub mod Texts
pub mod Encoded
