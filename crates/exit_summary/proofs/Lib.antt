pub mod Walks
pub mod Stretches
pub mod RangeLaws
pub mod Fitting
pub mod Cuts
pub mod SummaryLaws
