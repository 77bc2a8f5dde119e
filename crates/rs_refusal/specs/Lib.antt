pub mod Refusal
pub mod Counts
pub mod Inner
