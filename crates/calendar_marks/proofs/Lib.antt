pub mod Storing
pub mod Flagged
pub mod Filling
