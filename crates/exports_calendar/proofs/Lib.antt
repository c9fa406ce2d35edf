pub mod Kept
pub mod Demand3
