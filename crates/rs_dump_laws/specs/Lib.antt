pub mod Accepted
pub mod Parts
pub mod Listed
pub mod Dump
pub mod Kept
pub mod Lines
pub mod Replaying
