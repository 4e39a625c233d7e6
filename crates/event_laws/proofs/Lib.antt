pub mod Alike
pub mod Histories
mod Endings
