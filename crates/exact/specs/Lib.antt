-- What the two calls promise, read against itself.
pub mod Exact
