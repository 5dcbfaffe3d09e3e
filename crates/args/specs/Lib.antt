pub mod Counts
pub mod Row
pub mod OneValue
pub mod Values
