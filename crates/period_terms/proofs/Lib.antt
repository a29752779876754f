pub mod NextPeriods
pub mod Placing
pub mod Telling
pub mod TellingVotes
pub mod DigestSizes
pub mod TellingSigners
