pub mod Outside
pub mod FileReading
pub mod Held
pub mod Writing
