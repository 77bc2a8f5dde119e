pub mod Image
pub mod Laws
pub mod Range
pub mod Recorded
