pub mod Given
pub mod Types
pub mod Components
