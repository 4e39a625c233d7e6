pub mod Held
pub mod Desk
pub mod Seats
pub mod Beginnings
pub mod Passes
pub mod Shares
pub mod Workers
