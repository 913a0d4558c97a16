-- The first circle of a call graph, by its table of ways.
pub mod Paths
