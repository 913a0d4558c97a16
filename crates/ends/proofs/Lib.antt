pub mod Answers
pub mod Posts
pub mod Rooms
