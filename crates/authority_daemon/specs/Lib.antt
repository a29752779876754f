pub mod Commands
pub mod Moments
pub mod Runs
pub mod Served
pub mod World
pub mod Inside
