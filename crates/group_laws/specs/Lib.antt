pub mod Ranges
pub mod EntryAgain
pub mod LineAgain
pub mod Again
