pub mod Written
pub mod Filled
pub mod Decoded
