-- Trees as text for people.
pub mod Syntax
pub mod Text
pub mod Machine
pub mod Parsers
