pub mod Trees
pub mod Stacks
pub mod Forests
pub mod Readers
pub mod Counters
pub mod Writers
