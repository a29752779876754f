pub mod Lists
pub mod Apps
pub mod Named
pub mod Bounds
