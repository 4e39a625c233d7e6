pub mod Keeping
pub mod Starting
pub mod Between
mod Around
