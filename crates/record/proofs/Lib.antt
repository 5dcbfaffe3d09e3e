-- bytes at a place, and what a test's answer says of them; equal bytes; bytes stored; what a writing loop has left; numbers; literals
pub mod Places
pub mod Starts
pub mod Equal
pub mod Puts
pub mod Left
pub mod Numbers
pub mod Literals
pub mod Fronts
