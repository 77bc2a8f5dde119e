pub mod Listed
pub mod Order
pub mod Records
