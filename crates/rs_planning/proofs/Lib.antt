pub mod Meeting
pub mod Shown
pub mod PuttingBack
pub mod Widths
pub mod Operands
pub mod Forming
pub mod Meaning
pub mod LeastIndex
pub mod ByWeight
pub mod RecordCounts
mod Examples
