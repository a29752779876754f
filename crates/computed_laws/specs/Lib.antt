pub mod Computed
pub mod WithinLimits
