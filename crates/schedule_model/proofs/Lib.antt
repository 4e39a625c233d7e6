pub mod Paths
pub mod Items
pub mod Schedules
pub mod Examples
