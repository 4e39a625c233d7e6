pub mod Gives
pub mod Sound
pub mod View
