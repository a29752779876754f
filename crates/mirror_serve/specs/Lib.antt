pub mod Given
pub mod Connections
pub mod GivenTexts
