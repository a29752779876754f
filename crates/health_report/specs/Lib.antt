pub mod Signers
pub mod Lines
pub mod Reports
