mod Loops
mod Edits
mod Owned
