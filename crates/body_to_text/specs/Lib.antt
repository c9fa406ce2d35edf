pub mod Storing
pub mod Writable
pub mod Parts
