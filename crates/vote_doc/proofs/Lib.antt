pub mod Placing
pub mod KeptVotes
