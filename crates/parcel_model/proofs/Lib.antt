pub mod Fields
pub mod Entries
pub mod Stages
pub mod Parcels
pub mod Packed
pub mod Longer
