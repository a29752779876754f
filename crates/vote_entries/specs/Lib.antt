pub mod Saying
pub mod Kept
pub mod Entries
pub mod Rows
pub mod Room
