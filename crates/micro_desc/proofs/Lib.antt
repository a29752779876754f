pub mod KeptMicros
pub mod MicroTexts
