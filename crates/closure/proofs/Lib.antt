pub mod Ways
pub mod Growing
pub mod Entering
pub mod Linking
pub mod Following
pub mod Answering
