pub mod Status
pub mod Lines
pub mod Files
pub mod Commands
pub mod Answers
pub mod Stages
pub mod Ending
pub mod Shown
