pub mod Stands
pub mod OneTypes
pub mod TypeFronts
pub mod Heads
pub mod Targets
