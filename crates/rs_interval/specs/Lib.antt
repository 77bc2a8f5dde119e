pub mod Calls
pub mod Ends
pub mod EventRecords
pub mod Finding
