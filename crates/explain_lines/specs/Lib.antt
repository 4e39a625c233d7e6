pub mod Pieces
pub mod Names
pub mod Objects
pub mod Written
