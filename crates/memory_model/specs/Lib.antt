pub mod Sparse
pub mod Memory
pub mod Ranges
pub mod Sizes
