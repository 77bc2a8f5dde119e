mod ReservedLaws
mod ScanningLaws
mod LongestLaws
pub mod CutLaws
pub mod TokenLaws
pub mod NameTexts
