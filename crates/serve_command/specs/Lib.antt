pub mod Told
pub mod Starting
pub mod Serving
pub mod Answerable
pub mod Private
pub mod Passed
