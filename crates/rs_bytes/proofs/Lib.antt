mod Reading
pub mod Fixed
