mod Units
pub mod NumberTexts
pub mod Cuts
pub mod Lexemes
pub mod Readings
pub mod Positions
pub mod Values
pub mod Sessions
pub mod Lines
pub mod Clean
pub mod Inserts
mod Spelled
mod Putting
mod Named
mod Stations
