pub mod Meant
pub mod Numbers
pub mod AtOnce
pub mod Bare
pub mod OneNumber
