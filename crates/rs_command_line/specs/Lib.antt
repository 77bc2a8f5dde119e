pub mod CommandLine
pub mod Asked
pub mod Separator
pub mod Table
