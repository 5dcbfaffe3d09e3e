pub mod MatrixRules
