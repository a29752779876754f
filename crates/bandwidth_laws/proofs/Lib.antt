pub mod Saying
pub mod WrittenLines
pub mod HeaderLines
pub mod RelayLines
pub mod LastRows
pub mod Again
pub mod KeysAndValues
pub mod OneFile
