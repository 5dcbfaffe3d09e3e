pub mod Laid
pub mod Extents
