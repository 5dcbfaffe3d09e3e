-- the rules by what the code asks; matrices; a whole type record by its front
pub mod Checks
pub mod Matrices
pub mod Whole
