-- Trees in lent memory: what a number stands for, and what it is to read and to write trees.
pub mod Nodes
pub mod Roots
pub mod Arenas
pub mod Forests
pub mod Walks
