pub mod Lines
pub mod Items
pub mod Numbers
pub mod Reading
