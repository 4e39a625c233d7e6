pub mod Faults
pub mod Lists
pub mod Fronts
pub mod Headers
pub mod Ranges
pub mod Zeros
