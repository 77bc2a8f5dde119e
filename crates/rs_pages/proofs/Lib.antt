pub mod FreeLists
pub mod PlainLending
pub mod PlainStore
pub mod Stores
pub mod Resting
