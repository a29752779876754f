pub mod Apps
pub mod Options
pub mod Comings
pub mod Rows
pub mod Batches
