pub mod Jobs
pub mod Later
pub mod Begun
pub mod Apart
