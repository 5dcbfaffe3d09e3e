pub mod VectorParts
pub mod VectorRules
