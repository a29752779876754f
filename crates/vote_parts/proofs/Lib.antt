pub mod EntryPlaces
pub mod VotePlaces
pub mod VoteFaults
pub mod VoteEnds
pub mod OwnVotes
