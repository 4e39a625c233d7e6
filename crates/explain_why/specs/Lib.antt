pub mod Parts
pub mod Runs
pub mod Origin
pub mod Texts
pub mod Trapped
pub mod Why
pub mod Sought
