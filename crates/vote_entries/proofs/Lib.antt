pub mod RowLists
pub mod RowOrder
