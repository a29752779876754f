pub mod Signers
pub mod Questions
