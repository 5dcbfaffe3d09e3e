pub mod Opened
pub mod Calls
pub mod Table
pub mod Cases
pub mod Ends
pub mod Shapes
pub mod Batches
pub mod Layouts
