pub mod FlagLaw
pub mod Majorities
pub mod Pairs
pub mod AgreedRandoms
