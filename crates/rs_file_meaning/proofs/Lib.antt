pub mod Named
mod Lists
pub mod Picked
mod SameNames
mod OnRoute
mod SeenRecords
mod KeptLive
mod SameWorld
mod One
mod Lawful
pub mod Kept
mod Fresh
mod Next
mod KeptMeaning
mod Changed
