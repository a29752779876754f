pub mod Shifts
pub mod Later
pub mod FaultPlaces
pub mod Feeders
pub mod BehindLimit
pub mod LastWithin
pub mod OneMore
pub mod Beside
