pub mod Pages
pub mod Numbers
pub mod Words
pub mod Placed
pub mod Meaning
pub mod Used
pub mod Marks
pub mod Written
pub mod Found
pub mod Bounds
pub mod AtOnce
mod Kept
pub mod InRows
pub mod OneNumber
