pub mod Relays
pub mod Entries
pub mod Listings
pub mod Made
pub mod Making
pub mod Private
