pub mod Together
pub mod Fit
