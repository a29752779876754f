pub mod Moving
pub mod Feeders
pub mod Limits
