pub mod Marking
pub mod Picks
pub mod Counts
pub mod Belonging
pub mod Lines
pub mod Routerlines
pub mod Medians
