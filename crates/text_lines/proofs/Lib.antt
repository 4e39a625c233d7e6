pub mod FirstLine
pub mod Digits
pub mod Items
pub mod Loops
