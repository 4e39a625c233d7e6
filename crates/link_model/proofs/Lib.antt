pub mod Fields
pub mod Frames
pub mod Links
pub mod Ends
pub mod Carrying
