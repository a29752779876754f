pub mod Loops
pub mod VoteKeys
pub mod OpinionPlaces
pub mod RelayWords
pub mod Wholes
