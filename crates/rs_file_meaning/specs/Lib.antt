pub mod Changed
pub mod Live
pub mod Meant
pub mod Seen
pub mod Standing
pub mod States
pub use Rattle.rs_file.specs.Calls
pub use Rattle.rs_file.specs.Contents
