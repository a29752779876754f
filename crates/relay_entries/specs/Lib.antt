pub mod Texts
pub mod Fields
pub mod Lines
pub mod Tables
pub mod Listing
