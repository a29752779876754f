pub mod Heads
pub mod Tables
pub mod Certs
pub mod Reading
pub mod Texts
pub mod Checks
