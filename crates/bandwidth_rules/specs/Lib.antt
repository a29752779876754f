pub mod Limits
pub mod Classes
pub mod Private
pub mod Weights
