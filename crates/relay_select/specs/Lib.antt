pub mod Walks
pub mod Cursors
pub mod TupleOrder
pub mod Fields
pub mod Choices
