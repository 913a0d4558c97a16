-- What reading a script leaves behind.
pub mod Ends
pub mod Functions
pub mod Heads
pub mod Needs
pub mod Saying
pub mod Tables
