pub mod Fields
pub mod Columns
pub mod Records
pub mod Tables
pub mod Steps
