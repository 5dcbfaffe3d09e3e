-- bytes taken apart; the loops over literals and over columns; the values of a type, and what stands for them; the
-- loops over elements and members; the arms
pub mod Parts
pub mod Literals
pub mod Columns
pub mod Values
pub mod ByType
pub mod Walks
pub mod Arms
pub mod Answers
