pub mod Calls
pub mod Joins
