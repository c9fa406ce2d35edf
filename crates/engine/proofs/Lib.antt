pub mod States
mod Opens
mod Kept
pub mod Demand3
