pub mod Changes
pub mod Clean
pub mod Lending
pub mod Stored
