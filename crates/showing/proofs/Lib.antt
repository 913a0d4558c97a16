pub mod Standing
pub mod Numbering
pub mod Picked
pub mod Printouts
