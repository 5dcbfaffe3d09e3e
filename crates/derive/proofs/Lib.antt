-- the front of a value; its type, written; where it ends
pub mod ValueFronts
pub mod Typings
pub mod Skips
