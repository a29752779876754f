pub mod Appends
pub mod EntryTexts
