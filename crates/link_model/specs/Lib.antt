pub mod Names
pub mod Frame
pub mod Reading
pub mod Link
pub mod Ends
pub mod Carrying
