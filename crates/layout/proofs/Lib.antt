-- the parts of a type; which types have a layout; sizes exact to 64 bits; the table of the padding; the arms and the
-- loop of `walk_extent`; answers
pub mod Parts
pub mod LaidTypes
pub mod Extents
pub mod Tables
pub mod Walks
pub mod Answers
