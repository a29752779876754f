pub mod Answers
pub mod TestScheme
pub mod Requests
pub mod Exchanges
pub mod Services
pub mod Signing
pub mod SignedLines
pub mod SigningServices
