pub mod Taking
pub mod Below
pub mod Bytes
pub mod Whole
