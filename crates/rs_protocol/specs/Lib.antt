pub mod Puts
pub mod Ends
pub mod Inner
pub mod Laws
