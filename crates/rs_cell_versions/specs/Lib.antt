pub mod Calls
pub mod Changes
pub mod DeadCells
pub mod Dying
pub mod Inner
pub mod Looking
pub mod Opening
pub mod OpeningCalls
pub mod Tallies
pub mod Version
pub mod Versioned
pub use Rattle.rs_btree.specs.Calls as BtreeCalls
pub use Rattle.rs_btree.specs.Validating
