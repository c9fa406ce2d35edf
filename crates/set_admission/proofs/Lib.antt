pub mod Added
pub mod Laying
pub mod Judged
pub mod Recorded
