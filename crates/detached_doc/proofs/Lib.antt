pub mod BodyTurns
pub mod KeptDetached
pub mod Order
pub mod Rests
pub mod WholeTexts
