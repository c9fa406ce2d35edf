pub mod Quotients
pub mod Saturation
