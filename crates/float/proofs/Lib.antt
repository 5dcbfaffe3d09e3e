pub mod Rounds
pub mod Fields
pub mod Ranges
