pub mod Rows
pub mod Walks
pub mod Asking
pub mod Reading
pub mod Values
pub mod Range
