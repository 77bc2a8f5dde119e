pub mod RecordLists
pub mod Orders
pub mod Shifts
