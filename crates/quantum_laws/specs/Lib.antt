pub mod Between
pub mod Around
