pub mod NameOrder
pub mod PieceLaws
pub mod ReadableLines
mod ReferentNames
