-- one item; the walk over items; the items that a loop has left; the items of values; slices; a value to a type
pub mod ItemSteps
pub mod Walk
pub mod ItemsLeft
pub mod Values
pub mod Slices
pub mod ValueByType
