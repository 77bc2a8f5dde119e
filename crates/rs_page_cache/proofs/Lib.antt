pub mod Changed
pub mod CleanCounts
pub mod CleanLists
pub mod DiskPages
pub mod Numbers
pub mod Placed
