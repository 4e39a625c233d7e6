pub mod Cut
pub mod Digits
pub mod Names
pub mod Lines
pub mod Drafts
pub mod Data
pub mod Answers
