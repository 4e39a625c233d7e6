pub mod Ends
pub mod Linked
