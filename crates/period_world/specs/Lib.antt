pub mod Calls
pub mod WorldCalls
