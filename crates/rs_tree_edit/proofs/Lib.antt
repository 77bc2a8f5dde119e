pub mod Between
pub mod Listing
pub mod Pieces
pub mod Replacing
pub mod Saying
