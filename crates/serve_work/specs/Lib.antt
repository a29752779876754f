pub mod Reports
pub mod Attendants
pub mod Serving
pub mod Workers
