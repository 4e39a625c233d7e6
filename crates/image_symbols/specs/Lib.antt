pub mod Labels
pub mod Sections
pub mod Entries
pub mod Files
pub mod View
