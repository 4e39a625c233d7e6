pub mod Firsts
pub mod Puts
pub mod Exact
