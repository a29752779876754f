pub mod Lines
pub mod Gates
pub mod Hiring
pub mod Places
pub mod Written
pub mod Additions
pub mod Duties
pub mod Connections
mod Sent
