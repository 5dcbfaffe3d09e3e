pub mod Items
pub mod Values
