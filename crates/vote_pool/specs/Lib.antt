pub mod Ranks
pub mod Summaries
pub mod Kept
pub mod Pools
pub mod Lending
pub mod Laws
