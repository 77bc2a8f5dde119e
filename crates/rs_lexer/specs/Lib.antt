pub mod Lexis
pub mod Names
pub mod Scanning
pub mod States
