pub mod Lists
pub mod Inner
pub mod Taken
pub mod Parts
pub mod Tests
