pub mod MemoryLayouts
