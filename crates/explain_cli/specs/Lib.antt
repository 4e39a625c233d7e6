pub mod About
pub mod Ends
pub mod Explains
pub mod Answers
pub mod Stages
