pub mod Forms
pub mod Signers
pub mod Groups
