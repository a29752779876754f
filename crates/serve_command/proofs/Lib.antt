pub mod Reading
pub mod Stopping
pub mod Starts
pub mod Asking
pub mod Answering
pub mod Certificates
pub mod OneStation
pub mod NotRefused
