pub mod Header
pub mod Loads
pub mod Pages
pub mod Needs
pub mod Elf
pub mod Reading
pub mod Adding
pub mod Names
