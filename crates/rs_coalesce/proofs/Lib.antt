pub mod Orders
pub mod Joining
mod JoinLoop
pub mod Whole
mod OpenRuns
mod InTurn
pub mod Separate
