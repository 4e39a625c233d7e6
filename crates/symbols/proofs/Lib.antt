pub mod Lookup
pub mod Order
