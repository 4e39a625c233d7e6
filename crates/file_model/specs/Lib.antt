pub mod Sizes
pub mod File
pub mod Slots
pub mod Operations
pub mod Reconcile
