pub mod Votes
pub mod Entries
pub mod Held
pub mod Acceptable
pub mod ListLines
