pub mod Digest
pub mod Report
pub mod Summary
