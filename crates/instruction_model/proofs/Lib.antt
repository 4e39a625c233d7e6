pub mod Fields
pub mod Listing
pub mod Worked
pub mod Encoding
