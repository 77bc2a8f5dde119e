pub mod EventLaws
pub mod EventOrder
pub mod Finding
pub mod WordOrder
