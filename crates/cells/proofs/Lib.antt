pub mod Marks
pub mod Heads
