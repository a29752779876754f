pub mod Signing
pub mod Asking
pub mod LeftOut
