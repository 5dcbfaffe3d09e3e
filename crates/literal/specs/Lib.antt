pub mod LiteralAnswers
