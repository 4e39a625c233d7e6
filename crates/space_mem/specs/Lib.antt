pub mod Held
pub mod Tables
pub mod Stored
pub mod Moves
pub mod Taken
