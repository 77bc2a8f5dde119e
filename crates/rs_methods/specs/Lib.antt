pub mod Position
pub mod Referents
pub mod Inner
pub mod OnRoute
pub mod PositionText
