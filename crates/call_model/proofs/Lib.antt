pub mod Numbers
pub mod Accepted
pub mod Kept
pub mod Words
pub mod Spelled
