-- What the public calls promise.
pub mod Going
pub mod Judging
pub mod Numbers
