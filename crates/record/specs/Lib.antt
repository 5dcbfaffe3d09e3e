pub mod Bytes
pub mod Literals
pub mod Fronts
pub mod Values
