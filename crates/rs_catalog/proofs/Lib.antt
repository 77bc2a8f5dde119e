pub mod NameOrder
pub mod Names
pub mod MapLaws
mod FreeNumbers
pub mod DefinitionLaws
pub mod Numbered
pub mod ReferentLaws
mod UseLaws
pub mod StateLaws
