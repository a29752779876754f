mod BlankLines
mod KnownVotes
mod Arrivals
