-- hex; decimal; the answer and its line; the input taken apart
pub mod Hex
pub mod Digits
pub mod Lines
pub mod Splits
