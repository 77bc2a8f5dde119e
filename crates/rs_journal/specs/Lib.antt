pub mod Calls
pub mod FilePages
pub mod Journal
pub mod Look
pub mod LookLaws
pub mod Recovery
pub mod Stages
