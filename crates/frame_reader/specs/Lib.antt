pub mod Reading
pub mod Giving
pub mod Turning
pub mod Steps
pub mod Arriving
