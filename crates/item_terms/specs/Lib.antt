pub mod Bytes
pub mod Lines
pub mod Words
pub mod Base64Text
pub mod Faults
pub mod Steps
pub mod Items
