-- What lent memory holds.
pub mod Stack
pub mod Output
