pub mod Refusals
-- what an answer is, by its number and values; refusals; records written at the front of a buffer; records handed over
-- as they stand; answers in numbers
pub mod Told
pub mod BufferAtExit
pub mod Handed
pub mod Numbers
