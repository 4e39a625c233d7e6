pub mod Accepted
pub mod Hexadecimal
pub mod Lines
