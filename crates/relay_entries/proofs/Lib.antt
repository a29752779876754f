pub mod Methods
pub mod Keys
