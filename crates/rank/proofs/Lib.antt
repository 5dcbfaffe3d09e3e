-- ranks between kinds and between types
pub mod Ranks
