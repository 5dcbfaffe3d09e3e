-- answers; the one argument; to a type; to a runtime-sized array
pub mod ConversionAnswers
pub mod OneValue
pub mod ToType
pub mod Runtimes
