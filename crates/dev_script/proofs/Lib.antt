pub mod Loops
pub mod Pairs
pub mod Found
mod Runs
