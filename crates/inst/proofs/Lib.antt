-- values in a row; literals; a value by its parts; its front; by a type's record
pub mod ValueRows
pub mod Lits
pub mod ValueParts
pub mod Starts
pub mod ByType
