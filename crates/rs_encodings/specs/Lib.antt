-- What this crate's contracts speak of.
pub mod Texts
pub mod Forms
pub mod Encoded
pub mod Waiting
pub mod Reading
