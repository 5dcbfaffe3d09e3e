pub mod Refusals
pub mod Told
pub mod Hand
pub mod Numbers
