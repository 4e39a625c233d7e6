pub mod Runs
pub mod Needs
pub mod Parts
pub mod Sound
pub mod Images
pub mod Booted
