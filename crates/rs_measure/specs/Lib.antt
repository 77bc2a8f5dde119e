pub mod FixedPoint
pub mod Measure
pub mod Part
