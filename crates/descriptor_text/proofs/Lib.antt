pub mod Appends
pub mod LeftOver
