pub mod ListLines
pub mod Listed
pub mod Lines
pub mod Values
