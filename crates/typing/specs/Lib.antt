pub mod Hands
pub mod TypingAnswers
