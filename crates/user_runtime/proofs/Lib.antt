pub mod Forks
pub mod Entries
pub mod Meetings
pub mod Joins
pub mod Waits
