-- the rules for untemplated shapes, by what the code asks
pub mod Shapes
