-- What is found out about a script.
pub mod Verdicts
