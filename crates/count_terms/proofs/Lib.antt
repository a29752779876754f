pub mod Passing
pub mod Ordered
pub mod Numbers
