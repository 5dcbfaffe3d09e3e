-- columns and scalars; what follows from the shape; the matrix handed over
pub mod Columns
pub mod Shapes
pub mod Hands
