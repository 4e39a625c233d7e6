pub mod Offers
pub mod Events
pub mod Linked
