pub mod Entries
pub mod Lists
pub mod Texts
pub mod Made
