pub mod Sizes
pub mod Answering
pub mod SignedWords
