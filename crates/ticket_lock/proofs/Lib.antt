pub mod Views
pub mod Tickets
pub mod Steps
pub mod Turns
pub mod Joins
pub mod Calls
