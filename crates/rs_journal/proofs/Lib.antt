pub mod Advancing
pub mod Homes
pub mod Looking
pub mod Making
pub mod Recovering
pub mod Staging
pub mod Words
