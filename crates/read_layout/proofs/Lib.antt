-- loops over places in memory; the records of values in memory; scalars; vectors; what a type's front says; the arms;
-- the loops over elements and members
pub mod Apart
pub mod Parts
pub mod Scalars
pub mod Vectors
pub mod ByType
pub mod Values
pub mod Parted
pub mod Answers
