pub mod Writes
pub mod Opens
