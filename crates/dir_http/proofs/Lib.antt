mod Arrivals
mod Bodies
mod Lengths
mod Lines
mod Reading
mod WholeAnswers
mod Writing
pub mod WholeRequests
