pub mod Numbered
pub mod Reading
pub mod Sending
pub mod Written
