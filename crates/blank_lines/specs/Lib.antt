pub mod Behind
pub mod Blanks
pub mod Ends
pub mod Keywords
