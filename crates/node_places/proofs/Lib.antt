pub mod Paths
pub mod Placed
