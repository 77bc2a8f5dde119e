pub mod EncodingOrder
pub mod EncodingLaws
mod EncodingSteps
pub mod FittingLemmas
mod QuotesDoubled
pub mod KeptRows
pub mod KeptOrder
pub mod KeptReading
mod KeptEncoding
mod KeptText
pub mod SameBytes
