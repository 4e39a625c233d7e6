pub mod Places
pub mod Parts
pub mod Entries
pub mod Trees
pub mod Meetings
pub mod Tests
pub mod Local
pub mod Around
