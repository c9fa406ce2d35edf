pub mod Answers
pub mod Moves
pub mod Batches
