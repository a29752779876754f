pub mod Refusals
pub mod Completeness
pub mod Ending
pub mod Asking
pub mod ServedRuns
pub mod Choosing
