pub mod Calls
pub mod Looking
pub mod Replacing
pub mod Rooted
pub use Rattle.rs_tree_whole.specs.Validating
