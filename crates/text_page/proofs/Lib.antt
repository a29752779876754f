pub mod Lengths
pub mod Pages
