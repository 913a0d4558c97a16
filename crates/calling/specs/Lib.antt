-- How a call of a script's function comes out.
pub mod Calling
pub mod Errors
