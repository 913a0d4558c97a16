pub mod Moves
pub mod Numbers
pub mod Turns
pub mod Lexing
pub mod Steps
pub mod Whole
pub mod Unique
pub mod Closing
