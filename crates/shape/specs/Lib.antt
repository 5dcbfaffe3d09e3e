pub mod Kinds
pub mod Matrices
pub mod TypeRows
