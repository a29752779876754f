pub mod Worlds
pub mod Periods
pub mod KeptLaws
pub mod Chances
pub mod ShortForms
pub mod Checked
pub mod Publications
