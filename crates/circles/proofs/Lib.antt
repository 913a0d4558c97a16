pub mod Paths
pub mod First
pub mod Naming
pub mod Tracing
pub mod Tying
