-- from the bytes to the rules; none, one or more arguments; Const and Override
pub mod CallAnswers
pub mod Counts
pub mod Stages
