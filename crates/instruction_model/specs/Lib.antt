pub mod Word
pub mod Instruction
pub mod Encoding
pub mod Form
pub mod Arithmetic
pub mod Outcome
