pub mod Within
pub mod Stations
