pub mod Courses
pub mod Files
pub mod Promises
pub mod Sources
pub mod Words
