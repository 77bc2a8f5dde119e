mod MeasureTexts
mod Words
mod Defining
mod ListWords
mod Tables
mod Alignments
mod Inserts
mod AllLines
pub mod Joined
mod SaidRows
