pub mod Cuts
pub mod Arrays
pub mod Words
pub mod Numbers
pub mod Unnamed
