pub mod Saying
pub mod Drafts
pub mod Keeping
pub mod Reading
