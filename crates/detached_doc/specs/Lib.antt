pub mod Saying
pub mod Kept
pub mod Facts
pub mod Reading
pub mod Order
pub mod Texts
pub mod Private
pub mod Held
