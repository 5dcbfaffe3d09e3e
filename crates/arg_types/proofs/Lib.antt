-- how many arguments; a type by its front; each passes a test or a rule; components; their common kind; members
pub mod Given
pub mod Fronts
pub mod Passing
pub mod Components
pub mod KindsLeft
pub mod Members
