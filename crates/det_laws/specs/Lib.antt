pub mod Tree
pub mod Leads
pub mod Tops
pub mod Moved
pub mod Near
