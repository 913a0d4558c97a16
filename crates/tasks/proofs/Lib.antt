pub mod Costs
pub mod Moves
pub mod Frames
pub mod Standings
pub mod Paths
pub mod Calling
pub mod Courses
pub mod Runs
