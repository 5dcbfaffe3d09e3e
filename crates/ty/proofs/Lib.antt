-- tests and kind numbers; one type at a place; by mark and by front; from bytes to types and back; types in a row;
-- lengths; targets; the bottom kind; equality; a record at the front of a buffer
pub mod Numbers
pub mod Places
pub mod Heads
pub mod TypeFronts
pub mod Walks
pub mod Lens
pub mod Targets
pub mod Leaves
pub mod Bottom
pub mod Equal
pub mod FrontOfBuffer
