pub mod Nodes
pub mod Packing
pub mod Parcel
pub mod Names
pub mod Reading
pub mod Residents
pub mod Sent
