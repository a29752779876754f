pub mod Lines
pub mod Tables
pub mod Heads
pub mod Micros
pub mod Reading
pub mod Texts
pub mod Makings
