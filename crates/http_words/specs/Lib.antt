pub mod DigestLists
pub mod Paths
pub mod Replies
pub mod Words
pub mod Found
pub mod Outcomes
pub mod Connections
