pub mod Limits
pub mod Options
pub mod Calls
pub mod Accepted
pub mod Block
