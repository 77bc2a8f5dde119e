pub mod Tally
pub mod Counting
pub mod Totalling
pub mod Answer
