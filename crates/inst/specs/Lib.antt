pub mod Values
pub mod Reading
