pub mod Numbers
pub mod States
pub mod Routes
pub mod Tables
pub mod OtherReferents
pub mod OtherRows
pub mod SpanRows
pub mod Events
