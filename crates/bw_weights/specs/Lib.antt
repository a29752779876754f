pub mod Balance
pub mod Cases
pub mod Checks
pub mod Fractions
pub mod Ranges
pub mod Sums
pub mod Weights
