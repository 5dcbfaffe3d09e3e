pub mod Lengths
pub mod Members
pub mod Arrays
