pub mod Turns
pub mod Stocks
pub mod Boards
pub mod Going
pub mod Events
pub mod Passes
