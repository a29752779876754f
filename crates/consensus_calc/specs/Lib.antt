pub mod Marks
pub mod Counting
pub mod Picking
pub mod Places
pub mod Routerlines
pub mod Calculating
pub mod Timings
pub mod ListLines
