-- What a run comes to.
pub mod Runs
