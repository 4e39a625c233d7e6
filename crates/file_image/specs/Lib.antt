pub mod Lookup
pub mod Answers
pub mod Writes
pub mod Outcomes
pub mod Spared
pub mod Marks
