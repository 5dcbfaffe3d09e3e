-- one level down; the arguments; one argument
pub mod Downs
pub mod MatrixParts
pub mod OneToMatrix
