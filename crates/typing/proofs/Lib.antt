-- the record handed over; the answers
pub mod Hands
pub mod TypingAnswers
