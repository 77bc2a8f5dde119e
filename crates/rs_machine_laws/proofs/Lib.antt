mod Names
mod Lists
pub mod Opening
mod ViewOrder
mod Checked
mod Windows
mod Passing
mod Keeping
mod Views
mod Rows
mod Alignments
mod Facts
mod Indexes
mod Commands
mod Sessions
mod Lines
mod Columns
mod WellFormedQueries
pub mod NamedColumns
pub mod QuerySizes
mod Runs
mod Tokens
mod PositionTokens
mod PrintedPositions
mod ViewLines
mod ViewLineLengths
mod ShortestLines
mod ViewHeights
mod WideViews
mod OpenCursors
mod AnsweredSteps
