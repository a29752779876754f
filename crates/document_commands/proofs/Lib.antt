pub mod NotRefused
pub mod MadeOf
