pub mod Logs
pub mod Numbers
pub mod Turns
pub mod Changes
pub mod Joins
pub mod Shares
pub mod Acting
pub mod Working
