pub mod Outcomes
pub mod Sentences
