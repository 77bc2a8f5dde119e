pub mod SpanSums
pub mod RemovedSpans
