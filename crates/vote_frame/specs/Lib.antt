pub mod Across
pub mod Tables
