pub mod Ranges
pub mod Meetings
