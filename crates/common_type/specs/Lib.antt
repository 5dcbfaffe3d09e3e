pub mod Brought
pub mod CommonTypes
