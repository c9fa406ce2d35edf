pub mod Works
pub mod Scopes
pub mod Costs
pub mod Moves
pub mod Endings
pub mod Texts
pub mod Answers
