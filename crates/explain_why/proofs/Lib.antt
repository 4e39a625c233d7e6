pub mod TreePaths
pub mod Parts
pub mod RunsTell
pub mod Origins
pub mod ByLineage
pub mod Joins
pub mod Slots
pub mod Spaces
