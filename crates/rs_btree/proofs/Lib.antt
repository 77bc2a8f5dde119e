mod Among
pub mod Exchanging
mod Narrowing
mod Next
mod Pages
mod Parts
mod Roots
pub use Rattle.rs_tree_whole.proofs.Entries
pub use Rattle.rs_tree_whole.proofs.Sizes
pub use Rattle.rs_tree_insert.proofs.Between
pub use Rattle.rs_tree_insert.proofs.Ascending
pub use Rattle.rs_tree_insert.proofs.Pieces
pub use Rattle.rs_tree_whole.proofs.Joins
