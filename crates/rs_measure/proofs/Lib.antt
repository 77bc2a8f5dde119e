pub mod FixedPoint
pub mod MeasureText
pub mod PartText
pub mod SaidOrNot
