pub mod Feeding
pub mod SoFar
pub mod Blanks
pub mod Lending
pub mod Whole
pub mod Ended
