pub mod Moved
pub mod Parts
pub mod Again
pub mod Blocks
pub mod BlockFaults
pub mod Written
pub mod Calls
