pub mod Reading
pub mod Forms
