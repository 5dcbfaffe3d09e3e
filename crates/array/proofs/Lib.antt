-- lengths; a struct's members, side by side with the arguments; the loops over both; structs; arrays
pub mod Lengths
pub mod Pairs
pub mod MembersLeft
pub mod Structs
pub mod Arrays
