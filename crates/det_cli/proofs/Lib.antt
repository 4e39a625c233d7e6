pub mod Stages
pub mod Courses
pub mod Told
pub mod Promises
pub mod Shown
