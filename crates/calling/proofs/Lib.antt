pub mod Given
pub mod Wanting
