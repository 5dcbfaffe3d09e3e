-- the bytes of zero values; the arms and loops of `write_zero`; answers
pub mod Bytes
pub mod Zeros
pub mod ZeroAnswers
