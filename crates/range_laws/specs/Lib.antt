pub mod Certificates
pub mod Votes
