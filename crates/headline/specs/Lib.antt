pub mod Headline
pub mod Laws
pub mod Lists
pub mod Times
