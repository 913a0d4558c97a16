-- What there is to do at a place of a body, apart from memory; and how memory holds it.
pub mod Tasks
pub mod Texts
pub mod Stores
