-- sizes and alignments; lengths, where parts begin; what was written is read, what was read is written; the entries' answers
pub mod Sizes
pub mod RoundUp
pub mod Length
pub mod Numbers
pub mod Back
pub mod Whole
pub mod Typed
pub mod Cleared
pub mod RoundTrip
pub mod Accepted
pub mod Refused
