pub mod Chains
pub mod Starts
pub mod Beginning
pub mod Leading
pub mod Reaching
pub mod Taking
