-- the type that a vector's parts have; the common type of what arguments bring; the type so far and what is left; a
-- scalar so far; what the answer says
pub mod VectorParts
pub mod Meets
pub mod SoFar
pub mod ScalarSoFar
pub mod CommonAnswer
