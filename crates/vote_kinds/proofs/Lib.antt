pub mod ClearVotes
pub mod NoDocItems
pub mod NoDocVotes
