-- Size-change graphs, the ways along a call graph, and the theorems about them. Nothing here knows of trees, bytes or calls.
pub mod Graph
pub mod Circle
pub mod Theorems
