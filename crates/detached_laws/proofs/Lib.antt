pub mod DetachedMeaning
pub mod DetachedKinds
pub mod DetachedOrder
pub mod DetachedFields
pub mod DetachedAgain
pub mod DetachedRange
