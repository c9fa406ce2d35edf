pub mod Environment
pub mod Parts
pub mod Nots
pub mod Walking
pub mod Entry
