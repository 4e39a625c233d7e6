pub mod Found
pub mod Loop
pub mod Padding
