pub mod Slots
pub mod Taken
pub mod Answers
pub mod Laws
pub mod Files
pub mod FileLaws
