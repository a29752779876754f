pub mod Causes
pub mod Streams
pub mod Memories
pub mod Fields
pub mod FieldTexts
pub mod RoundTrips
pub mod HexBytes
