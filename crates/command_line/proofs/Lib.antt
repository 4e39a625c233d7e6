pub mod Accepted
pub mod AppLemmas
pub mod Bounds
pub mod Complete
pub mod Kept
pub mod LineLemmas
pub mod ReadLemmas
pub mod Rows
