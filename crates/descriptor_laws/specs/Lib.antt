pub mod Ranges
pub mod Lines
pub mod Again
pub mod ReadRanges
pub mod Values
pub mod MicroRanges
pub mod MicroAgain
pub mod Read
