pub mod Marked
pub mod Orders
pub mod Runs
pub mod EmptyRanges
