pub mod Ranges
pub mod CertsGiven
pub mod Lines
pub mod Votes
pub mod Given
pub mod ReadAsMade
pub mod Rulings
pub mod FileVotes
