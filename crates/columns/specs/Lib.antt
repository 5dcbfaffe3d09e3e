pub mod Columns
pub mod ColumnParts
