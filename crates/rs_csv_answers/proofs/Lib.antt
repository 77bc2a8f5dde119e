pub mod Marks
mod Cutting
mod Cells
mod Joining
mod Turns
mod OneAnswer
mod Counting
mod ManyLines
mod NextLine
mod FreshReader
