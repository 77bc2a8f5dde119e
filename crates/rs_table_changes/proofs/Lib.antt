mod Apart
mod Ending
mod Finding
mod GiveWay
mod Inserted
mod Inserting
mod LeftSpans
mod Moments
mod Outside
mod PickLaws
mod Removed
mod Removing
mod Seeing
mod Shown
mod StillSeen
mod Tables
mod Taken
mod WideSpans
pub mod Cancelling
pub mod Turning
