pub mod NextMicro
pub mod Documents
pub mod BandwidthFiles
pub mod Answers
pub mod Ends
pub mod Private
