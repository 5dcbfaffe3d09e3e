-- arguments counted; in a row; the one handed over; a literal among them; the type of one by its first bytes
pub mod Rest
pub mod ArgumentRows
pub mod Kept
pub mod LiteralArgs
pub mod Firsts
pub mod OneValue
