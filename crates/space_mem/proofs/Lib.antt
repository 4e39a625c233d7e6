pub mod Lacks
pub mod Strings
pub mod Tables
pub mod Kept
pub mod Updates
pub mod RangeEdits
pub mod Dirty
pub mod PageEdits
pub mod Freezes
pub mod Copies
pub mod Alike
mod Taken
