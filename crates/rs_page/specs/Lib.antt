pub mod FileHeader
pub mod Follow
pub mod Header
pub mod Number
pub mod PageBytes
