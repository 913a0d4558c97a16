pub mod Finding
pub mod Heading
pub mod Needing
pub mod Passing
pub mod Places
