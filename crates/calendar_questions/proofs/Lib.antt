pub mod Digits
pub mod Searching
pub mod Runs
pub mod Flags
pub mod Nearness
