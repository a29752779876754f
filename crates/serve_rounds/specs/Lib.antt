pub mod Duties
pub mod Exchanges
pub mod Keeping
pub mod OwnVotes
pub mod Plans
pub mod Spans
