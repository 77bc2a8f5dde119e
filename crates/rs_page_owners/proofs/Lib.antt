pub mod Moving
pub mod Working
pub mod Following
