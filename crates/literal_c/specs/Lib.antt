pub mod LiteralNumbers
