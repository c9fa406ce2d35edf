pub mod Collected
pub mod Delivered
