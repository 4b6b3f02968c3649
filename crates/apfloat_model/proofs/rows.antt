pub mod RowsIn
pub mod Rows
pub mod RowsExact
pub mod RowsRoots
pub mod RowsTexts
