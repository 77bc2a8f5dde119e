pub mod NameOrder
pub mod Rows
pub mod Sets
pub mod Placing
pub mod SpanLaws
pub mod Counting
pub mod StretchOrder
pub mod KeptLaws
pub mod RunLaws
pub mod Apart
pub mod RunsOf
pub mod RunMeaning
pub mod Inside
mod KeptRuns
pub mod RowSets
mod OperatorRows
pub mod Gapping
pub mod Carrying
pub mod Transforming
pub mod KeptColumns
