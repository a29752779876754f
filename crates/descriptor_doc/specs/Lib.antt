pub mod Saying
pub mod Heads
pub mod Descriptors
pub mod FamilyCerts
pub mod Reading
pub mod Certified
pub mod Families
pub mod Checks
