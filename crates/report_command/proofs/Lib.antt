pub mod FrontLine
pub mod Chains
pub mod ConsensusPlace
pub mod Answering
pub mod OneReading
pub mod NotRefused
