pub mod Sizes
pub mod Padding
