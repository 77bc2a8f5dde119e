pub mod Cuts
pub mod MovedTexts
pub mod MovedQueries
pub mod ViewTexts
mod Selected
