pub mod Lasting
pub mod Adding
pub mod AskedOfPlans
pub mod RoundMarks
pub mod Exchanges
pub mod Kept
