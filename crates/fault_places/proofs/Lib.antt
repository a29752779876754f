pub mod LinePlaces
pub mod FirstFaults
pub mod ArgumentPlaces
pub mod ItemPlaces
pub mod Placed
