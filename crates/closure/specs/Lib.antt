-- The ways along a call graph as rows of a table.
pub mod Ways
pub mod Parts
pub mod Answers
