pub mod Drafting
pub mod Moments
