mod Digests
pub mod Telling
