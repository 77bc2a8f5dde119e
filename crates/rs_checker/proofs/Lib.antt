pub mod Walks
pub mod ColumnLaws
pub mod ConditionLaws
pub mod QueryLaws
pub mod SizeLaws
pub mod CatalogLaws
pub mod StepLaws
pub mod NodeLaws
pub mod TableLaws
pub mod PassLaws
mod AlignmentLaws
pub mod NumberLaws
