pub mod Saying
pub mod Schema
