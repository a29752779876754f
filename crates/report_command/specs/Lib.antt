pub mod Told
pub mod Inputs
pub mod Answers
pub mod Private
