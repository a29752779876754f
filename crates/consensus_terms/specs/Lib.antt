pub mod Lines
pub mod Methods
pub mod Moments
pub mod Routers
pub mod Weights
pub mod Flavours
pub mod Texts
pub mod Signed
