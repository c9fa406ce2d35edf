pub mod Comparing
pub mod Inserting
pub mod Sinking
pub mod Spacing
pub mod Swapped
