-- one argument by its mark; components; what is written; what the loops have left; what is decided of several
-- arguments, of one, and of a common type
pub mod Args
pub mod Lits
pub mod Writes
pub mod PartsLeft
pub mod Decides
pub mod OneToVector
pub mod Commons
