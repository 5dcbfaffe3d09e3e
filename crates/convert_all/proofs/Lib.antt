-- conversion by fronts; all arguments to one type; literals to a scalar type; laws for callers
pub mod ByFronts
pub mod Converts
pub mod LiteralLists
pub mod ConvertedLists
