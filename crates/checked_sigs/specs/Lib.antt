pub mod Next
pub mod Asking
pub mod Checks
