pub mod Families
pub mod Certificates
pub mod Fields
pub mod Lines
pub mod Tables
