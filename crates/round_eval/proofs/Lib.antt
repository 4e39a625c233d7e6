pub mod Jobs
pub mod Later
pub mod Onward
pub mod Moves
pub mod RootFirst
pub mod Quanta
