pub mod Members
pub mod Holding
pub mod Standings
pub mod Judgements
pub mod Weighings
pub mod Rounding
pub mod Owns
pub mod Nexts
