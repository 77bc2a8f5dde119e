pub mod HeldLaws
pub mod MachineCursors
pub mod OldestLaws
mod BySession
mod Lowest
mod Oldests
mod NextLines
mod Steps
