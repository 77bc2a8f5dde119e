pub mod Sums
pub mod SpanSums
pub mod RouteRuns
mod Folding
mod GroupMaps
mod Adding
mod Answering
mod Stepping
mod Answered
