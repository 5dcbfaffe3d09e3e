pub mod Printed
pub mod Split
pub mod Digits
