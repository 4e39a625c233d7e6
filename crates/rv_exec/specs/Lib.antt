pub mod Access
pub mod Steps
pub mod Flat
