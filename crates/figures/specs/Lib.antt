pub mod Distances
pub mod Scopes
pub mod Parts
pub mod Measured
pub mod Prepared
