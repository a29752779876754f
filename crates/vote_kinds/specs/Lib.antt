pub mod VoteKinds
