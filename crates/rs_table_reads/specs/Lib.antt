pub mod Events
pub mod Found
pub mod Picked
pub mod Read
